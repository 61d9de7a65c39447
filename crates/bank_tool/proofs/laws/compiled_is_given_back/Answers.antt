use Rattle.bank_tool.proofs.GivenSteps.{ima_comes, ima_given, image_comes, image_given, vag_comes, vag_given}
use Rattle.bank_tool.proofs.laws.compiled_is_given_back.Goals as goal

pub returns-clause-image : goal.returns-clause-image
returns-clause-image c = λ block content bank name j rate fitted error entries other sample h.
    image_given c.given_back.ensures.stored c.entries_are.ensures.image block content bank name j rate fitted error entries other sample h

pub returns-clause-vag : goal.returns-clause-vag
returns-clause-vag c = λ block content bank name j rate fitted error entries other sample h.
    vag_given c.given_back.ensures.stored c.entries_are.ensures.vag block content bank name j rate fitted error entries other sample h

pub returns-clause-ima : goal.returns-clause-ima
returns-clause-ima c = λ block content bank name j rate fitted error entries other sample h.
    ima_given c.given_back.ensures.frames c.entries_are.ensures.ima block content bank name j rate fitted error entries other sample h

pub returns-clause-image_comes : goal.returns-clause-image_comes
returns-clause-image_comes c = λ block content bank image read each.
    image_comes c.entries_are.ensures.image_comes c.entries_are.ensures.image block content bank image read each

pub returns-clause-vag_comes : goal.returns-clause-vag_comes
returns-clause-vag_comes c = λ block content bank j sample.
    vag_comes c.entries_are.ensures.vag block content bank j sample

pub returns-clause-ima_comes : goal.returns-clause-ima_comes
returns-clause-ima_comes c = λ block content bank j sample.
    ima_comes c.entries_are.ensures.ima block content bank j sample
