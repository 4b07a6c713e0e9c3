mod Cuts
mod Indexing
mod Saying
