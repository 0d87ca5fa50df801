pub mod Telling
mod Inputs
mod Parts
