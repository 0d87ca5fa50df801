pub mod LendingLaws
