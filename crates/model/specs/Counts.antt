-- Document 02, ticket 6: "Make budget and step count 64 bits wide in the machine and the answer." The run is defined on natural numbers
-- (Run); here is what a width makes of them. That it loses nothing is `CountsCarried` in Promises. Assumes nothing.
use Rattle.std.specs.Prelude.{ℕ, ◌%◌, ◌^◌, List}
use Rattle.model.specs.declared.Limits.{Limits}
use Rattle.model.specs.declared.Machine.{Machine}
use Rattle.model.specs.Answers.{Report, ended, rejected}
use Rattle.model.specs.Run.{Seen, run_on}

-- how many bits a budget and a count have (`Steps` in the code), and how many they had: document 01's "A run has a budget, 32 bits."
abbrev pub step_bits : ℕ
step_bits = 64

abbrev pub earlier_step_bits : ℕ
earlier_step_bits = 32

-- what so many bits hold of a number
abbrev pub in_bits : ℕ → ℕ → ℕ
in_bits bits n = n % 2 ^ bits

abbrev pub count_in : ℕ → Report → Report
count_in bits (ended e steps) = ended e (in_bits bits steps)
count_in bits (rejected f steps) = rejected f (in_bits bits steps)

-- what is seen of a call of a run whose budget and count have so many bits, and hold of a greater number what they can
unfoldable pub run_in : ℕ → Limits → List ℕ → Machine → List ℕ → ℕ → ℕ → Seen
run_in bits limits file m memory offset budget =
    let seen = run_on limits file m memory offset (in_bits bits budget) in
    record { report = count_in bits seen.report; machine = seen.machine; memory = seen.memory }
