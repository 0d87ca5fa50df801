mod PassLaws
mod Modelling
mod Posting
mod StuckPasses
