-- `Walks` is the walk over a session's calls, `WriteSteps` and `ReadSteps` one call of a writer's and of a reader's,
-- `Offsets` the offset of a seek, `Shows` the whole text, `Once` that no second text satisfies the promises.
pub mod Walks
pub mod WriteSteps
pub mod ReadSteps
pub mod Offsets
pub mod Shows
pub mod Once
