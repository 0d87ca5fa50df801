-- What the reading of a text says of the answer that it is.
use Rattle.std.proofs.Common.{◌≡◌, ℕ, inl, inr, List, Option, Some, Result, Ok, Err}
use Rattle.std.specs.Prelude.{IfOk}
use Rattle.aig_semantics.specs.Circuits.{Circuit}
use Rattle.certificate.specs.declared.ends.Accepted.{Accepted}
use Rattle.certificate.specs.declared.ends.AnswerEnd.{AnswerEnd}
use Rattle.certificate.specs.declared.ends.AnswerEnd.TheVariants as ends
use Rattle.certificate.specs.Answers.{Shows}
use Rattle.certificate.specs.Ends.{ReadsAs, DecidesEnd, SaysOfAnswer, CheckSays, EndsWith}
use Rattle.certificate.specs.Laws.{GoodIsTrue}
use Rattle.certificate.specs.Texts.{SaysOfText, ReadingSays}
use Rattle.certificate.proofs.GoodRead.{good_from_reads, reads_from_good}

decides_as_read : (c : Circuit) (text : List ℕ) (end : Result Accepted AnswerEnd) → ReadsAs c text end → DecidesEnd c text end
decides_as_read c text (Ok accepted) reads = good_from_reads c text accepted reads
decides_as_read c text (Err (ends.Refused fault)) reads = reads
decides_as_read c text (Err ends.ReadFault) reads = reads
decides_as_read c text (Err ends.Memory) reads = reads

reads_as_decided : (c : Circuit) (text : List ℕ) (end : Result Accepted AnswerEnd) → DecidesEnd c text end → ReadsAs c text end
reads_as_decided c text (Ok accepted) good = reads_from_good c text accepted good
reads_as_decided c text (Err (ends.Refused fault)) refused = refused
reads_as_decided c text (Err ends.ReadFault) never = never
reads_as_decided c text (Err ends.Memory) never = never

says_of_answer : (c : Circuit) (told : Option (List ℕ)) (end : Result Accepted AnswerEnd) → SaysOfText c told end → SaysOfAnswer c told end
says_of_answer c told end (inl unread) = inl unread
says_of_answer c told end (inr (text, may, reads)) = inr (text, may, decides_as_read c text end reads)

pub check_says : (c : Circuit) (told : Option (List ℕ)) (result : Result Accepted AnswerEnd) → ReadingSays c told result → CheckSays c told result
check_says c told result (inl says) = inl (says_of_answer c told result says)
check_says c told result (inr memory) = inr memory

pub check_exactly : (c : Circuit) (told : Option (List ℕ)) (result : Result Accepted AnswerEnd) → ((text : List ℕ) (verdict : Result Accepted AnswerEnd) → told ≡ Some text → ReadsAs c text verdict → EndsWith result verdict) → (text : List ℕ) (verdict : Result Accepted AnswerEnd) → told ≡ Some text → DecidesEnd c text verdict → EndsWith result verdict
check_exactly c told result exactly text verdict is decides = exactly text verdict is (reads_as_decided c text verdict decides)

-- what is accepted is true
pub check_shows : (c : Circuit) (told : Option (List ℕ)) (result : Result Accepted AnswerEnd) → GoodIsTrue c → ReadingSays c told result → IfOk result (Shows c)
check_shows c told (Ok accepted) true_of (inl (inl unread)) = absurd (cc unread)
check_shows c told (Ok accepted) true_of (inl (inr (text, may, reads))) = true_of text accepted (good_from_reads c text accepted reads)
check_shows c told (Ok accepted) true_of (inr memory) = absurd (cc memory)
check_shows c told (Err end) true_of says = _
