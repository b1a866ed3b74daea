use Rattle.round_laws.proofs.Word.{printed-replays, printed-is_order}
use Rattle.round_laws.proofs.printed_order_replays.Goals as goal

pub returns : goal.returns
returns c first last all es own suits order replays = (printed-is_order first all es suits order last replays own, printed-replays first all es suits order last replays)
