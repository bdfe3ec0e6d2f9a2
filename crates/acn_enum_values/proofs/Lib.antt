mod ByNumber
mod Noted
