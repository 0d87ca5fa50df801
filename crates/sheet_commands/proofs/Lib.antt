pub mod Numbers
pub mod BoardBlocks
mod OtherLines
mod SheetBlocks
mod CutBlocks
mod Agreeing
