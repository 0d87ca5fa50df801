mod Making
mod Checked
mod Fitting
