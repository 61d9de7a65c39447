use Rattle.std.proofs.Common.{sym, ◌∙◌, Some}
use Rattle.command_plan.proofs.Promised.{short_for_words}
use Rattle.bank_tool.proofs.CommandSteps.{no_command, block_answers, compile_answers, check_answers, bound_answers, decompile_answers, play_answers, make_answers}
use Rattle.bank_tool.proofs.top.run.Goals as goal

pub returns-in-Err-clause-told : goal.returns-in-Err-clause-told
returns-in-Err-clause-told g c = λ files told. short_for_words _ _ (g.H.Host.world c.args.host.now)

pub returns-in-Ok-None-clause-told : goal.returns-in-Ok-None-clause-told
returns-in-Ok-None-clause-told g c = λ files told.
    no_command _ files (g.H.Host.world c.args.host.now) (g.H.Host.world c.finish.new.host) c.finish.result (sym c.in-Ok-None.ensures ∙ c.in-Ok-None.field-0-is) c.finish.ensures

pub returns-in-Ok-Some-clause-block : goal.returns-in-Ok-Some-clause-block
returns-in-Ok-Some-clause-block g c = λ files input output told is.
    block_answers (Some c.in-Ok-Some.command) files input output (g.H.Host.world c.args.host.now) (g.H.Host.world c.obey.new.host) c.obey.result (sym c.in-Ok-Some.field-0-is ∙ c.in-Ok-Some.ensures ∙ is) (c.obey.ensures.told files told)

pub returns-in-Ok-Some-clause-compile : goal.returns-in-Ok-Some-clause-compile
returns-in-Ok-Some-clause-compile g c = λ files manifest told is.
    compile_answers (Some c.in-Ok-Some.command) files manifest (g.H.Host.world c.args.host.now) (g.H.Host.world c.obey.new.host) c.obey.result told (sym c.in-Ok-Some.field-0-is ∙ c.in-Ok-Some.ensures ∙ is) (c.obey.ensures.told files told)

pub returns-in-Ok-Some-clause-play : goal.returns-in-Ok-Some-clause-play
returns-in-Ok-Some-clause-play g c = λ files kind file entry count told is.
    play_answers (Some c.in-Ok-Some.command) files kind file entry count (g.H.Host.world c.args.host.now) (g.H.Host.world c.obey.new.host) c.obey.result (sym c.in-Ok-Some.field-0-is ∙ c.in-Ok-Some.ensures ∙ is) (c.obey.ensures.told files told)

pub returns-in-Ok-Some-clause-make : goal.returns-in-Ok-Some-clause-make
returns-in-Ok-Some-clause-make g c = λ files number told is.
    make_answers (Some c.in-Ok-Some.command) files number (g.H.Host.world c.args.host.now) (g.H.Host.world c.obey.new.host) c.obey.result (sym c.in-Ok-Some.field-0-is ∙ c.in-Ok-Some.ensures ∙ is) (c.obey.ensures.told files told)

pub returns-in-Ok-Some-clause-decompile : goal.returns-in-Ok-Some-clause-decompile
returns-in-Ok-Some-clause-decompile g c = λ files kind file output told is.
    decompile_answers (Some c.in-Ok-Some.command) files kind file output (g.H.Host.world c.args.host.now) (g.H.Host.world c.obey.new.host) c.obey.result told c.sounds_for_ever.ensures (sym c.in-Ok-Some.field-0-is ∙ c.in-Ok-Some.ensures ∙ is) (c.obey.ensures.told files told)

pub returns-in-Ok-Some-clause-check : goal.returns-in-Ok-Some-clause-check
returns-in-Ok-Some-clause-check g c = λ files manifest told is.
    check_answers (Some c.in-Ok-Some.command) files manifest (g.H.Host.world c.args.host.now) (g.H.Host.world c.obey.new.host) c.obey.result (sym c.in-Ok-Some.field-0-is ∙ c.in-Ok-Some.ensures ∙ is) (c.obey.ensures.told files told)

pub returns-in-Ok-Some-clause-bound : goal.returns-in-Ok-Some-clause-bound
returns-in-Ok-Some-clause-bound g c = λ files manifest effort told is.
    bound_answers (Some c.in-Ok-Some.command) files manifest effort (g.H.Host.world c.args.host.now) (g.H.Host.world c.obey.new.host) c.obey.result (sym c.in-Ok-Some.field-0-is ∙ c.in-Ok-Some.ensures ∙ is) (c.obey.ensures.told files told)
