mod HeaderLaws
mod ModuleLaws
mod Whole
