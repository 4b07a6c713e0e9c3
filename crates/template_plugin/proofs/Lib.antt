mod Cutting
mod Judged
mod Saying
mod Searched
mod Codes
mod Headed
