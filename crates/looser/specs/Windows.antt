-- Which of two requests has the looser windows (docs/RULES.md, rules 97 and 98): said of the tables of their files, as each file gives them.
use Rattle.std.specs.Prelude.{◌≡◌, ℕ, ◌≤◌, ◌<◌}
use Rattle.tables.specs.declared.JobRecord.{JobRecord}
use Rattle.tables.specs.declared.Tables.{Tables}
use Rattle.tables.specs.Layout.{job_in}

-- A job and the same job with a window that is no narrower (rule 97).
pub record Wider (j j' : JobRecord) : Type 0 where
  pub same_run : j.run ≡ j'.run
  pub same_set : j.set ≡ j'.set
  pub no_later_release : j'.release ≤ j.release
  pub no_earlier_deadline : j.deadline ≤ j'.deadline

-- Two job lists, whatever their kind, that are alike but for the windows of their jobs; those of the second are no narrower (rule 98).
pub record Looser (T T' : Tables) : Type 0 where
  pub no_tasks : (T.tasks.count ≡ 0) × (T'.tasks.count ≡ 0)
  pub same_kind : T.kind ≡ T'.kind
  pub same_horizon : T.horizon ≡ T'.horizon
  pub same_devices : T.devices ≡ T'.devices
  pub as_many_jobs : T.jobs.count ≡ T'.jobs.count
  pub wider : (j : ℕ) → j < T.jobs.count → Wider (job_in T j) (job_in T' j)
