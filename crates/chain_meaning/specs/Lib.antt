pub mod RefusalTexts
pub mod Steps
pub mod Grounds
pub mod Caching
pub mod Translating
pub mod TranslatingNothingLaws
pub mod Mean
pub mod MeanLaws
pub mod Accepting
pub mod AcceptingLaws
pub mod Serving
pub mod CacheCauses
pub mod TranslatingCauses
pub mod Causes
pub mod GivesLaws
pub mod CacheCauseLaws
pub mod TranslatingCauseLaws
pub mod CauseLaws
pub mod TranslatingCalls
pub mod TranslatingCallsLaws
pub mod CallsByRun
pub mod CallsByRunLaws
pub mod Called
-- what public clauses cite
pub use Rattle.chain_meaning.specs.Accepting.{IsAccepted, IsRefused, IsRefusedWith}
pub use Rattle.chain_meaning.specs.Called.{AreCalls, AsksCalls}
pub use Rattle.chain_meaning.specs.Causes.{AskedCause, HasCause, IsServFail}
pub use Rattle.chain_meaning.specs.Mean.{mean, nothing, number, outcome_of}
pub use Rattle.chain_meaning.specs.RefusalTexts.{refusal_text}
pub use Rattle.chain_meaning.specs.Serving.{Serves}
pub use Rattle.chain_meaning.specs.Steps.{Step, steps_of}
pub use Rattle.chain_meaning.specs.Grounds.{Brought, Ground, Terms, brought_of, ground_at, named_in}
pub use Rattle.chain_meaning.specs.Grounds.{terms_on}
