mod AttributeLaws
mod FieldLaws
mod MapLaws
mod ModuleLaws
mod PathLaws
mod Whole
mod WordLaws
