-- The worked runs, by computation.
use Rattle.std.proofs.Common.{◌≤◌, List, [], ◌∷◌, length, refl, arith}
use Rattle.values.specs.declared.word.Word.{Word}
use Rattle.sheets.specs.Runs.{OnCells, WorkedRuns}

on_six : (P : List Word → Type 0) → ((a b c d e f : Word) (ws : List Word) → P (a ∷ b ∷ c ∷ d ∷ e ∷ f ∷ ws)) → OnCells 6 P
on_six P h [] k = absurd (omega arith)
on_six P h (a ∷ []) k = absurd (omega arith)
on_six P h (a ∷ b ∷ []) k = absurd (omega arith)
on_six P h (a ∷ b ∷ c ∷ []) k = absurd (omega arith)
on_six P h (a ∷ b ∷ c ∷ d ∷ []) k = absurd (omega arith)
on_six P h (a ∷ b ∷ c ∷ d ∷ e ∷ []) k = absurd (omega arith)
on_six P h (a ∷ b ∷ c ∷ d ∷ e ∷ f ∷ ws) k = h a b c d e f ws

on_eight : (P : List Word → Type 0) → ((a b c d e f i j : Word) (ws : List Word) → P (a ∷ b ∷ c ∷ d ∷ e ∷ f ∷ i ∷ j ∷ ws)) → OnCells 8 P
on_eight P h cells k = on_six (λ xs. 8 ≤ length xs → P xs) (λ a b c d e f ws. two a b c d e f ws) cells (omega arith) k
  where
    two : (a b c d e f : Word) (ws : List Word) → 8 ≤ length (a ∷ b ∷ c ∷ d ∷ e ∷ f ∷ ws) → P (a ∷ b ∷ c ∷ d ∷ e ∷ f ∷ ws)
    two a b c d e f [] n = absurd (omega arith)
    two a b c d e f (i ∷ []) n = absurd (omega arith)
    two a b c d e f (i ∷ j ∷ ws) n = h a b c d e f i j ws

pub worked_runs : WorkedRuns
worked_runs = record {
  without_call = on_eight _ (λ a b c d e f i j ws. record { outcome_is = refl; nodes_are = refl; moves_are = refl });
  with_call = on_eight _ (λ a b c d e f i j ws. record { outcome_is = refl; nodes_are = refl; moves_are = refl });
  transcript = on_eight _ (λ a b c d e f i j ws. refl);
  spent = on_eight _ (λ a b c d e f i j ws. record { outcome_is = refl; nodes_are = refl; moves_are = refl });
  full = on_eight _ (λ a b c d e f i j ws. record { outcome_is = refl; nodes_are = refl; moves_are = refl });
  source_c_ends = refl;
  allocation_c_ends = on_six _ (λ a b c d e f ws. refl);
}
