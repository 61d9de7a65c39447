-- A refusal beside want of memory.
use Rattle.std.specs.Prelude.{Result, Ok, Err}
use Rattle.command_faults.specs.declared.refusal.CertRefusal.{CertRefusal}
use Rattle.bank_check.specs.declared.failure.CertFailure.{CertFailure}
use Rattle.bank_check.specs.declared.failure.CertFailure.TheVariants.{Refused}

-- a reading that may refuse a certificate, where memory may run out besides
abbrev pub or_failure : {X : Type 0} → Result X CertRefusal → Result X CertFailure
or_failure (Ok x) = Ok x
or_failure (Err fault) = Err (Refused fault)
