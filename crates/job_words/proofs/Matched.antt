-- From the matches of a parse to what the words ask for.
use Rattle.std.proofs.Common.{◌≡◌, ◌≢◌, true, false, List, [], ◌∷◌, None, refl, sym, ap, ◌∙◌, inl, inr}
use Rattle.std.specs.List.{list_any}
use Rattle.clap.specs.Faults.{fault_of, is_simple_and_free}
use Rattle.clap.specs.Kinds.{HasKind, IsAmong, Kinds}
use Rattle.clap.specs.Simple.{App, matches_of}
use Rattle.clap.specs.Values.{kind_of}
use Rattle.clap.specs.Walk.{Row, Text}
use Rattle.clap.specs.declared.error.Error.{Error}
use Rattle.clap.specs.declared.error.kind.ErrorKind.{ErrorKind}
use Rattle.clap.specs.declared.error.kind.ErrorKind.TheVariants.{OutOfMemory}
use Rattle.input_defs.specs.Words.{request}
use Rattle.input_laws.specs.command_laws.Command.{command, is_dashes, passes, request_at, request_by}
use Rattle.input_laws.proofs.command_laws.SideBySide.{reads_request}

among : (kind : ErrorKind) (kinds : Kinds) → IsAmong kind kinds → passes kinds ≡ false
among kind [] a = absurd a
among kind (k ∷ ks) a = refl

fails_of : (kinds : Kinds) (e : Error) → HasKind kinds e → kind_of e ≢ OutOfMemory → passes kinds ≡ false
fails_of kinds e h other = elim h [ inl memory ↦ absurd (other memory) | inr a ↦ among (kind_of e) kinds a ]

pub refused : (app : App) (texts : List Text) (e : Error) → app ≡ command → (is_simple_and_free app ≡ true → HasKind (fault_of app texts) e) → kind_of e ≢ OutOfMemory → passes (fault_of command texts) ≡ false
refused app texts e is kinds other = sym (ap (λ a. passes (fault_of a texts)) is) ∙ fails_of (fault_of app texts) e (kinds (ap is_simple_and_free is)) other

pub no_request : (texts : List Text) → list_any is_dashes texts ≡ false → passes (fault_of command texts) ≡ false → None ≡ request texts
no_request texts none fails =
    let by : request_by texts ≡ None = rw fails refl in
    sym by ∙ reads_request texts none

pub request_is : (texts : List Text) (rows : List Row) → list_any is_dashes texts ≡ false → fault_of command texts ≡ [] → rows ≡ matches_of command texts → request_at rows ≡ request texts
request_is texts rows none no_fault is =
    let by : request_by texts ≡ request_at (matches_of command texts) = rw no_fault refl in
    ap request_at is ∙ (sym by ∙ reads_request texts none)
