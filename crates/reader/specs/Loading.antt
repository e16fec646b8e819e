-- What machine and verifier go on with. Assumes nothing.
use Rattle.std.specs.Prelude.{ℕ, ◌*◌, ◌≤◌, ◌≡◌, List, length}
use Rattle.model.specs.declared.Layout.{Layout}
use Rattle.model.specs.File.{most_instructions, most_targets}
use Rattle.model.specs.Rules.{ModulePlaced}

-- a layout, n instructions and k targets that keep rules 5 to 7 but for the order of claims'
-- ends, as the stretches of a file are that is read, claims ignored or not
pub record Loaded (l : Layout) (code targets : List ℕ) (n k : ℕ) : Type 0 where
  pub kept : ModulePlaced l code targets
  pub code_whole : length code ≡ 8 * n
  pub targets_whole : length targets ≡ 68 * k
  pub n_some : 1 ≤ n
  pub n_most : n ≤ most_instructions
  pub k_some : 1 ≤ k
  pub k_most : k ≤ most_targets
