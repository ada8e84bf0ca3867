pub mod InverseSBox
pub mod InverseCipher
pub mod InverseRoundTable
pub mod RoundKeys
pub mod Statements
