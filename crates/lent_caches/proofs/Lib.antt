mod Merging
mod Keeping
mod Views
