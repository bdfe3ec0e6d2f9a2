mod Told
mod Routed
