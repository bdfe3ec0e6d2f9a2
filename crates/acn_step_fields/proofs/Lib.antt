mod Parts
mod Soughts
