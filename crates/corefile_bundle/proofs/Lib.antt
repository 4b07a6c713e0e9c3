mod Gathered
mod Rereading
