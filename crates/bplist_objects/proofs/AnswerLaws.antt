-- Laws of what a call returns.
use Rattle.std.proofs.Common.{Result, Ok, Err}
use Rattle.bplist_objects.specs.declared.fault.Fault.{Fault}
use Rattle.bplist_objects.specs.declared.fault.ObjectFault.{ObjectFault}
use Rattle.bplist_objects.specs.declared.fault.ObjectFault.TheVariants as errors
use Rattle.bplist_objects.specs.Answers.{Gives, GivesFault}

-- what is said of a fault, in other words
pub faults_mean : (P Q : Fault → Type 0) (e : ObjectFault) → ((x : Fault) → P x → Q x) → GivesFault P e → GivesFault Q e
faults_mean P Q (errors.Fault fault) same h = same fault h
faults_mean P Q (errors.Read _) same h = tt

-- what is said of a result, in other words
pub answers_mean : {X : Type 0} → (P R : X → Type 0) (Q T : Fault → Type 0) (result : Result X ObjectFault) → ((x : X) → P x → R x) → ((x : Fault) → Q x → T x) → Gives P Q result → Gives R T result
answers_mean P R Q T (Ok x) oks faults h = oks x h
answers_mean P R Q T (Err e) oks faults h = faults_mean Q T e faults h
