mod Chains
mod Writes
