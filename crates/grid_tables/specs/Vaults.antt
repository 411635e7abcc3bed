-- The numbers of the files of replicas.
use Rattle.std.specs.Prelude.{◌≡◌, ◌==◌, ◌&&◌, ℕ, Bool, true, false, not, List, Option, None, Some}
use Rattle.std.specs.List.{list_any}
use Rattle.grid_model.specs.declared.deltas.ReplicaRow.{ReplicaRow}
use Rattle.grid_tables.specs.declared.vaults.Vault.{Vault}
use Rattle.tables_laws.proofs.Rows.{IsIn}

-- These are the vault numbers of these replicas, each of which has another one.
pub record IsVaults (rows : List ReplicaRow) (vaults : List Vault) : Type 0 where
  pub all : (x : ReplicaRow) → IsIn rows x → list_any (λ v. v.vault == x.vault) vaults ≡ true
  pub none_else : (n : ℕ) → list_any (λ v. v.vault == n) vaults ≡ true → list_any (λ o. o.vault == n) rows ≡ true
  pub once : (x y : ReplicaRow) → IsIn rows x → IsIn rows y → x.vault ≡ y.vault → x ≡ y

-- whether a number is the one from before, where that is another one now
abbrev pub is_left : Option ℕ → ℕ → ℕ → Bool
is_left None vault n = false
is_left (Some old) vault n = not (old == vault) && (n == old)
