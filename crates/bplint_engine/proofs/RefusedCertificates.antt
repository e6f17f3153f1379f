-- Certificates that are refused.
use Rattle.std.proofs.Common.{◌≡◌, ℕ, List, inl, inr}
use Rattle.bplist_cert.specs.Encoding.{octets_of, IsCertRefusal}
use Rattle.bplist_cert.specs.Lists.{Lists, IsCertificate}
use Rattle.bplist_cert.specs.PairFault.{IsPairFault}
use Rattle.bplist_cert.specs.Refusals.{GivesRefusal}
use Rattle.bplist_cert.specs.declared.certificate.CertRefusal.{CertRefusal}
use Rattle.bplist_cert.specs.declared.certificate.CertRefusal.TheVariants as cert_refusals
use Rattle.bplist_cert.specs.declared.refusal.Refusal.{Refusal}
use Rattle.bplist_cert.specs.declared.refusal.Refusal.TheVariants as refusals
use Rattle.bplist_cursor.specs.Answered.{RefusesBy}
use Rattle.bplist_cursor.specs.declared.certified_answers.AnswerFault.{AnswerFault}
use Rattle.bplist_cursor.specs.declared.certified_answers.AnswerFault.TheVariants as answers
use Rattle.bplint_engine.specs.Get.{answer_fault}
use Rattle.bplint_engine.specs.Output.{IsRefusal}
use Rattle.bplint_engine.proofs.LowerFaults.{check_fault, octets_fault}
use Rattle.bplint_engine.specs.Check.{CheckSays}

-- the bytes are no certificate
pub octets_refused : (f cert : List ℕ) (refusal : CertRefusal) → IsCertRefusal cert refusal → IsRefusal (CheckSays f cert) (octets_fault refusal)
octets_refused f cert (cert_refusals.Fault fault) first = inl first
octets_refused f cert cert_refusals.Memory first = tt

-- the bytes are a certificate, and the check refuses it
pub check_refused : (f cert : List ℕ) (lists : Lists) (refusal : Refusal) → IsCertificate lists → cert ≡ octets_of lists
    → GivesRefusal (IsPairFault f lists) refusal → IsRefusal (CheckSays f cert) (check_fault refusal)
check_refused f cert lists (refusals.Fault fault) is spelled first = inr (lists, is, spelled, first)
check_refused f cert lists (refusals.Read _) is spelled first = tt
check_refused f cert lists refusals.Memory is spelled first = tt

-- the same if there are no replies
pub answer_refused : (f cert : List ℕ) (lists : Lists) (fault : AnswerFault) → IsCertificate lists → cert ≡ octets_of lists
    → RefusesBy (IsPairFault f lists) fault → IsRefusal (CheckSays f cert) (answer_fault fault)
answer_refused f cert lists (answers.Fault fault) is spelled first = inr (lists, is, spelled, first)
answer_refused f cert lists (answers.Read _) is spelled first = tt
answer_refused f cert lists answers.Changed is spelled first = absurd first
answer_refused f cert lists answers.Memory is spelled first = tt
