use Rattle.scan.proofs.Places.{past-token}
use Rattle.scan.proofs.cursor.past_token.Goals as goal

pub returns-clause-at : goal.returns-clause-at
returns-clause-at c = (past-token c.args.bytes.now c.args.at c.token_end.result c.requires.at c.requires.inside c.requires.begins c.requires.body c.token_end.ensures).at

pub returns-clause-goes_on : goal.returns-clause-goes_on
returns-clause-goes_on c = (past-token c.args.bytes.now c.args.at c.token_end.result c.requires.at c.requires.inside c.requires.begins c.requires.body c.token_end.ensures).some

pub returns-clause-token : goal.returns-clause-token
returns-clause-token c = (past-token c.args.bytes.now c.args.at c.token_end.result c.requires.at c.requires.inside c.requires.begins c.requires.body c.token_end.ensures).is
