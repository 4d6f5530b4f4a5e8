-- Why a job didn't come to its end.
use Rattle.dsc_split.specs.declared.cutter.SplitError.{SplitError}
use Rattle.dsc_split.specs.declared.cutter.SplitError.TheVariants as split
use Rattle.ps_machine.specs.declared.refusal.RunRefusal.{RunRefusal}
use Rattle.ps_machine.specs.declared.refusal.RunRefusal.TheVariants as refusal
use Rattle.job_run.specs.declared.job.JobFault.{JobFault}
use Rattle.job_run.specs.declared.job.JobFault.TheVariants as fault

-- by the splitting of the job
abbrev pub of_split : SplitError → JobFault
of_split (split.TooManyPages count) = fault.TooManyPages count
of_split split.NoMemory = fault.NoMemory

-- by the run of a section
abbrev pub of_run : RunRefusal → JobFault
of_run refusal.OutFault = fault.WriteFault
of_run refusal.NoMemory = fault.NoMemory
