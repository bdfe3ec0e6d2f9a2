mod Joined
mod Noting
