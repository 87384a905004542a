-- Each way through a report and a drop: what the tests have told, and that the step is then the one that `Steps` asks for.
use Rattle.std.specs.Prelude.{◌≡◌, refl, List, [], ◌∷◌, ℕ, ◌≤◌, ◌<◌, ℤ, pos, ◌≤ℤ◌, ◌<ℤ◌, Result, Ok, Err}
use Rattle.std.proofs.Common.{sym, ap, ◌∙◌, subst, inl, inr, arith}
use Rattle.std.proofs.lemmas.List.{length-map}
use Rattle.std.specs.Int.Signed.{clash_ℤ}
use Rattle.whole.specs.Laws.Order.{not_before, is_after}
use Rattle.track.specs.Life.{LivesAt, CellInRange}
use Rattle.track.specs.Refusals.{◌when◌, First, number, number_of}
use Rattle.track.specs.Laws.Refusals.{NoneHolds, none_holds, first_then, not_zero, refused_not_zero}
use Rattle.track.specs.Report.{report_reasons, kept_cell, Reports}
use Rattle.track.specs.Laws.Accepted.{minute_stable, report_none_zero, kept_in_range}
use Rattle.track.specs.declared.cell.Cell.{Cell}
use Rattle.track.specs.declared.report.Report.{Report}
use Rattle.track.specs.declared.refusal.Refusal.{Refusal}
use Rattle.node.specs.Entry.{cell_of}
use Rattle.node.specs.Inner.Made.{leaf_entry}
use Rattle.table.specs.Header.{capacity, clock, root, height}
use Rattle.table.specs.Laws.Header.{capacity_low}
use Rattle.table.specs.Laws.Header.{node_below}
use Rattle.table.specs.Sound.{Sound}
use Rattle.tree.specs.Inner.Clear.{Cleared}
use Rattle.table.specs.Inner.Headed.{Clocked}
use Rattle.tree.specs.Inner.Holding.{leaves, Holding}
use Rattle.tree.specs.Laws.Holding.{stands_capacity}
use Rattle.tree.specs.Inner.PutCell.{HasRoom, PutCell}
use Rattle.tree.specs.Steps.{NoRoom, ReportSteps, DropInRange, DropSteps}
use Rattle.tree.specs.Inner.Staying.{CanCount}
use Rattle.tree.specs.Inner.StayingCells.{many_stay}
use Rattle.tree.specs.Laws.StayingCells.{no_more_room, more_room, is_there, not_there}
use Rattle.tree.specs.Laws.Stepping.{sound_ample, sound_holding, left_many, drop_step, report_step}
use Rattle.tree.specs.Inner.Outcomes.{CanReport, CellSteps}

-- ---- the count of the cells that stay is taken from the root
pub can_count_root : {w : List ℤ} → Sound w → CanCount w (height w) (root w)
can_count_root {w} s = record {
  ample = sound_ample s;
  node_in = node_below s.root_in;
  clock = clock w;
  sound = s.tree;
  few = omega (arith, length-map (leaves w) cell_of, s.few_cells, capacity_low s.capacity_in);
}

module _ {w : List ℤ} {minute : ℤ} {c : Cell} (can : CanReport w minute c) where
  pub cell_full : capacity w ≤ many_stay w minute c.id → CellSteps w minute c 9 w
  cell_full many = record { refusal = inl (no_more_room can.sound minute c.id many, refl); accepted = not_zero 8; refused = λ n. refl }

  module _ (few : many_stay w minute c.id < capacity w) {v : List ℤ} (cleared : Cleared w minute c.id v) where
    pub room_left : HasRoom v minute
    room_left = record {
      holding = cleared.clearing.holding;
      few = rw (stands_capacity cleared.clearing.stands) (omega (arith, left_many can.sound cleared));
    }

    pub cell_taken : {u z : List ℤ} → PutCell v minute (leaf_entry c) u → Clocked u minute z → CellSteps w minute c 0 z
    cell_taken p set-clock = record {
      refusal = inr (more_room can.sound minute c.id few, refl);
      accepted = λ e. report_step can.sound cleared c refl few p can.lives set-clock;
      refused = λ n. absurd (n refl);
    }

-- ---- a report
module _ {w : List ℤ} {r : Report} where
  pub report_unsound : (Sound w → ⊥) → ReportSteps w r 1 w
  report_unsound n = record { refusal = inl (n, refl); accepted = not_zero 0; refused = λ m. refl }

  module _ (s : Sound w) {answer : Result Cell Refusal} (reports : Reports (clock w) r answer) where
    pub report_refused : {why : Refusal} → answer ≡ Err why → ReportSteps w r (number why) w
    report_refused {why} e = record {
      refusal = inr (
        λ n. n s,
        first_then (report_reasons (clock w) r) (9 when NoRoom w r.minute r.id ∷ []) (number why) (number why) (report_none_zero (clock w) r)
            (subst (First (report_reasons (clock w) r)) (ap number_of e) reports.refusal) (inl (refused_not_zero why, refl)),
      );
      accepted = λ z. absurd (refused_not_zero why z);
      refused = λ n. refl;
    }

    module _ {c : Cell} (kept : answer ≡ Ok c) where
      accepted_as : Reports (clock w) r (Ok c)
      accepted_as = rw kept at reports

      none : NoneHolds (report_reasons (clock w) r)
      none = none_holds (report_reasons (clock w) r) 0 (report_none_zero (clock w) r) accepted_as.refusal refl

      pub can_report : CanReport w r.minute c
      can_report = record {
        sound = s;
        is_minute = minute_stable (λ n. none.0 (λ h. n h.minute_in));
        later = not_before none.1.0;
        in_range = kept_in_range accepted_as;
        lives = subst (LivesAt r.minute) (sym accepted_as.cell) (is_after none.1.1.0);
      }

      pub report_taken : {n : ℕ} {v : List ℤ} → CellSteps w r.minute c n v → ReportSteps w r n v
      report_taken {n} {v} steps =
          let t : CellSteps w r.minute (kept_cell r) n v = subst (λ (d : Cell). CellSteps w r.minute d n v) accepted_as.cell steps in
          record {
            refusal = inr (
              λ m. m s,
              first_then (report_reasons (clock w) r) (9 when NoRoom w r.minute r.id ∷ []) 0 n (report_none_zero (clock w) r)
                  accepted_as.refusal (inr (λ m. m refl, t.refusal)),
            );
            accepted = t.accepted;
            refused = t.refused;
          }

-- ---- a drop
module _ {w : List ℤ} {id minute : ℤ} where
  pub drop_unsound : (Sound w → ⊥) → DropSteps w id minute 1 w
  drop_unsound n = record { refusal = inl (n, refl); accepted = not_zero 0; refused = λ m. refl }

  module _ (s : Sound w) where
    pub drop_out : (DropInRange id minute → ⊥) → DropSteps w id minute 4 w
    drop_out n = record { refusal = inr (λ m. m s, inl (n, refl)); accepted = not_zero 3; refused = λ m. refl }

    module _ (is : DropInRange id minute) where
      pub drop_before : minute <ℤ clock w → DropSteps w id minute 5 w
      drop_before before = record { refusal = inr (λ m. m s, inr (λ m. m is, inl (before, refl))); accepted = not_zero 4; refused = λ m. refl }

      module _ (later : clock w ≤ℤ minute) where
        pub drop_holding : Holding w minute
        drop_holding = sound_holding s is.minute_in later

        pub drop_not_live : many_stay w minute (pos 0) ≤ many_stay w minute id → DropSteps w id minute 8 w
        drop_not_live many = record {
          refusal = inr (λ m. m s, inr (λ m. m is, inr (λ before. clash_ℤ before later, inl (not_there s minute id many, refl))));
          accepted = not_zero 7;
          refused = λ m. refl;
        }

        pub drop_done : {v u : List ℤ} → many_stay w minute id < many_stay w minute (pos 0) → Cleared w minute id v → Clocked v minute u → DropSteps w id minute 0 u
        drop_done less cleared set-clock = record {
          refusal = inr (λ m. m s, inr (λ m. m is, inr (λ before. clash_ℤ before later, inr (λ m. m (is_there s minute id less), refl))));
          accepted = λ e. drop_step s cleared set-clock;
          refused = λ m. absurd (m refl);
        }
