pub mod Made
pub mod Living
pub mod KeptPins
pub mod OpenedAgain
pub mod OneImports
pub mod AlikeReleases
