pub mod Apart
pub mod Attack
pub mod Move
pub mod Legal
pub mod Judge
pub mod AtSmallest
pub mod AtSmallestJudge
pub mod Promises
