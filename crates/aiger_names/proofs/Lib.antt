mod Loops
mod Answers
