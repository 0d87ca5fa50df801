pub mod Values
pub mod WantedEnds
pub mod UseLaws
pub mod Replayed
pub mod Completing
pub mod CompletingAll
pub mod CompletingEntries
pub mod CompletingProofs
pub mod CompletingStarts
pub mod CompletingTexts
mod StateRefutations
mod Ended
pub mod GoodRead
pub mod GoodTrue
pub mod Judged
pub mod OneEnd
pub mod Reached
pub mod Readable
pub mod WrittenGood
pub mod EachEnd
mod Staying
mod Playing
pub mod AddedLines
pub mod PlainLines
pub mod WrittenLiterals
pub mod WrittenEntries
pub mod WrittenCertificates
pub mod Kept
pub mod TakenBack
pub mod Printed
pub mod LoadedLaws
pub mod WholeLaws
