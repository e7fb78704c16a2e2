-- Where nothing was shown, and where nothing ran.
use Rattle.std.proofs.Common.{ℕ, List, [], inl, inr, Option, Some, None, refl, ap, sym, ◌∙◌, append-nil, arith}
use Rattle.np_ports.specs.Peer.{Known}
use Rattle.np_ports.specs.Files.{Contents}
use Rattle.np_end_stops.specs.Status.{IsRunStatus}
use Rattle.np_show.specs.Listing.{file_listing}
use Rattle.np_show.specs.Show.{ShowCut}
use Rattle.np_show.proofs.Endings.{cut-early}
use Rattle.np_host.specs.Words.{HostCommand, Run, Check, Show, host_command}
use Rattle.np_host.specs.Host.{RunsPage, OfRun, OfShow, RunsWords}
use Rattle.np_host.specs.Shows.{ShowsCut}

-- nothing that was to be shown was printed
pub nothing-shown : (words : List (List ℕ)) (file_failed : Type 0) (files : Option Contents) (taken : Option (List ℕ)) → ShowsCut words file_failed files taken taken
nothing-shown words file_failed files taken = at (host_command words)
  where
    at : (o : Option HostCommand) → OfShow o (λ name. ShowCut name file_failed files taken taken)
    at None = tt
    at (Some (Run r)) = tt
    at (Some (Check side file)) = tt
    at (Some (Show file)) = λ f told. cut-early (f file) taken taken file_failed (λ t is. ([], (file_listing (f file)).lines, refl, is ∙ ap (λ (l : List ℕ). Some l) (sym (append-nil t))))

-- a run has one of the statuses of a run
pub never-ran : (words : List (List ℕ)) (files : Option Contents) (known0 known1 : Option Known) (taken0 taken1 : Option (List ℕ)) (status : ℕ) → (IsRunStatus status → ⊥) → RunsWords words files known0 known1 taken0 taken1 status
never-ran words files known0 known1 taken0 taken1 status never = at (host_command words)
  where
    at : (o : Option HostCommand) → OfRun o (λ r. RunsPage r.page r.program files known0 known1 taken0 taken1 status) (IsRunStatus status → ⊥)
    at None = never
    at (Some (Run r)) = λ ran. absurd (never ran)
    at (Some (Check side file)) = tt
    at (Some (Show file)) = tt

pub eight-is-no-run : IsRunStatus 8 → ⊥
eight-is-no-run (inl e) = omega (arith, e)
eight-is-no-run (inr (inl e)) = omega (arith, e)
eight-is-no-run (inr (inr (inl e))) = omega (arith, e)
eight-is-no-run (inr (inr (inr e))) = omega (arith, e)

pub ten-is-no-run : IsRunStatus 10 → ⊥
ten-is-no-run (inl e) = omega (arith, e)
ten-is-no-run (inr (inl e)) = omega (arith, e)
ten-is-no-run (inr (inr (inl e))) = omega (arith, e)
ten-is-no-run (inr (inr (inr e))) = omega (arith, e)
