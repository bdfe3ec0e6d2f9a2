mod Items
mod Told
