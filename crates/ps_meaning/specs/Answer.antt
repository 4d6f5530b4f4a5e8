-- What comes of an application on a state and a memory, and what is known of the run so far.
pub use Rattle.ps_meaning.specs.Logs.{Log, looked_in, acted_in, lifted_in, changed_in, is_outer, SecondLookLaw, LayingLaw}
pub use Rattle.ps_meaning.specs.Answers.{read, names_taken, fixed, Effect, newest, act_done, state_done, Answer, answer_over, answer, step_answer, outer_in, taken_by, AnswersAs, IsRun, IsOuter, AnswersRun, AnswerLaw}
