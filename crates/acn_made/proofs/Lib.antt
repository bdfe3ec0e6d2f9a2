mod Views
mod Steps
