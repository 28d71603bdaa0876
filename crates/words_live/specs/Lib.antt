pub mod LiveLayout
