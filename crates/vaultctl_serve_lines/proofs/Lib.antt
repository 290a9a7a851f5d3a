pub mod HearingLemmas
pub mod LogTurnLemmas
pub mod UntakenLemmas
pub mod TurnLemmas
