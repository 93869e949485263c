-- The words of the outside (counted faults, told bytes) and the states of its memory forms.
pub mod Outside
pub mod OutsideLaws
pub mod Memory
pub mod Peers
