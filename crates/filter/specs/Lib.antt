-- What lists have in common; what `filter_irc` has found and written, turn by turn.
pub mod Noted
pub mod Found
