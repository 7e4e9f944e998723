-- How many vertices a search may have to enter, whatever it remembers: the one part of the search that a promise speaks of.
use Rattle.std.specs.Prelude.{ℕ, zero, suc, ◌-◌, ◌*◌}
use Rattle.schedule.specs.declared.Recorder.{Recorder}
use Rattle.schedule.specs.Quantities.{jobs}

-- No more vertices than this are entered below one with m jobs unplaced at the time t, itself among them: at each tick from t on it may wait, and each job may start.
unfoldable pub most_of : Recorder → ℕ → ℕ → ℕ
most_of R zero t = 0
most_of R (suc m) t = suc ((R.horizon - t) * suc (jobs R * most_of R m 0))

-- No more vertices than this are entered in all: below the root, and again below it for each job that is read off.
unfoldable pub most_vertices : Recorder → ℕ
most_vertices R = suc (jobs R) * most_of R (jobs R) 0
