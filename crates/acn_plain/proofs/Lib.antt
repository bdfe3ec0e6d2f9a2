mod Deep
mod Encoding
