use Rattle.bank_tool.proofs.CommandSteps.{block_obeys, compile_obeys, check_obeys, bound_obeys, decompile_obeys, play_obeys, make_obeys}
use Rattle.bank_tool.proofs.top.obey.Goals as goal

pub returns-in-Block-clause-told : goal.returns-in-Block-clause-told
returns-in-Block-clause-told g c = λ files told.
    block_obeys c.args.command.now files c.in-Block.input c.in-Block.output c.as_str.result.now c.as_str-in-Block.result.now
    (g.H.Host.world c.args.host.now) (g.H.Host.world c.run_block.new.host) c.run_block.result c.in-Block.is c.as_str.ensures c.as_str-in-Block.ensures (c.run_block.ensures.told files told)

pub returns-in-Compile-clause-told : goal.returns-in-Compile-clause-told
returns-in-Compile-clause-told g c = λ files told.
    compile_obeys c.args.command.now files c.in-Compile.manifest c.as_str-in-Compile.result.now
    (g.H.Host.world c.args.host.now) (g.H.Host.world c.run_compile.new.host) c.run_compile.result c.in-Compile.is c.as_str-in-Compile.ensures (c.run_compile.ensures.told files told)

pub returns-in-Play-clause-told : goal.returns-in-Play-clause-told
returns-in-Play-clause-told g c = λ files told.
    play_obeys c.args.command.now files c.in-Play.kind c.in-Play.file c.as_str-in-Play.result.now c.in-Play.entry c.in-Play.count
    (g.H.Host.world c.args.host.now) (g.H.Host.world c.run_play.new.host) c.run_play.result c.in-Play.is c.as_str-in-Play.ensures (c.run_play.ensures.told files told)

pub returns-in-Make-clause-told : goal.returns-in-Make-clause-told
returns-in-Make-clause-told g c = λ files told.
    make_obeys c.args.command.now files c.in-Make.number (g.H.Host.world c.args.host.now) (g.H.Host.world c.run_make.new.host) c.run_make.result c.in-Make.is c.run_make.ensures.told

pub returns-in-Decompile-clause-told : goal.returns-in-Decompile-clause-told
returns-in-Decompile-clause-told g c = λ files told.
    decompile_obeys c.args.command.now files c.in-Decompile.kind c.in-Decompile.file c.in-Decompile.output c.as_str-in-Decompile.result.now c.as_str-in-Decompile-2.result.now
    (g.H.Host.world c.args.host.now) (g.H.Host.world c.run_decompile.new.host) c.run_decompile.result c.in-Decompile.is c.as_str-in-Decompile.ensures c.as_str-in-Decompile-2.ensures (c.run_decompile.ensures.told files told)

pub returns-in-Check-clause-told : goal.returns-in-Check-clause-told
returns-in-Check-clause-told g c = λ files told.
    check_obeys c.args.command.now files c.in-Check.manifest c.as_str-in-Check.result.now
    (g.H.Host.world c.args.host.now) (g.H.Host.world c.run_check.new.host) c.run_check.result c.in-Check.is c.as_str-in-Check.ensures (c.run_check.ensures.told files told)

pub returns-in-Bound-clause-told : goal.returns-in-Bound-clause-told
returns-in-Bound-clause-told g c = λ files told.
    bound_obeys c.args.command.now files c.in-Bound.manifest c.as_str-in-Bound.result.now c.in-Bound.effort
    (g.H.Host.world c.args.host.now) (g.H.Host.world c.run_bound.new.host) c.run_bound.result c.in-Bound.is c.as_str-in-Bound.ensures (c.run_bound.ensures.told files told)
