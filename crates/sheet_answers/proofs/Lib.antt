mod Replaying
mod Ended
mod Reached
pub mod Others
pub mod Statuses
mod Entering
mod EnteringProofs
mod EnteringEntries
mod ShowingLines
mod WellStates
mod SheetLines
mod SheetReads
mod GoodSheets
mod TrueSheets
mod Told
mod WrittenSheets
mod AddedBlocks
mod BlockWords
mod LineSteps
pub mod HeldTexts
