mod Chains
mod Left
