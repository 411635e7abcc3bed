mod Counts
mod Cuts
mod Edits
mod Firsts
mod Orders
mod Runs
