mod Read
mod Gathered
mod Alike
