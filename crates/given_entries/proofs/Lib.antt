mod Texts
mod Entries
mod Ends
mod Listed
mod Lists
mod Named
