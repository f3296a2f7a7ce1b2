pub mod Alike
pub mod HeldAnswers
pub mod Fetching
pub mod Silence
pub mod InUse
pub mod ByNumber
pub mod FewNumbers
