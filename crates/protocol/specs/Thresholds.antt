-- What is asked of the numbers that make a process act.
use Rattle.std.specs.Prelude.{ℕ, ◌+◌, ◌-◌, ◌*◌, ◌<◌, ◌≤◌}

-- What agreement rests on, where all weigh n and the faulty ones at most t: two echo quorums
-- share a correct process; enough readies come from a correct one, and those that make a process
-- accept hold enough from correct ones to make all ready; and the correct processes alone reach
-- the first and the last threshold.
pub record Sound (n t echo ready accept : ℕ) : Type 0 where
  pub meet : n + t < 2 * echo
  pub echoes : echo ≤ n - t
  pub one_correct : t < ready
  pub enough : ready + t ≤ accept
  pub accepts : accept ≤ n - t
