-- Points of bodies, their judgements, and the frames that stand at them.
pub mod Body
pub mod Advance
pub mod Named
pub mod Quiet
pub mod Entry
pub mod JudgeRight
pub mod Judge
pub mod Spot
pub mod Below
pub mod SpotEnd
pub mod SpotReturn
pub mod Method
pub mod Stands
pub mod Top
pub mod End
pub mod Test
