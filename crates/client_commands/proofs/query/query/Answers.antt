use Rattle.client_commands.proofs.query.query.Goals as goal

pub returns-in-Lines : goal.returns-in-Lines
returns-in-Lines g c = rw c.in-Lines.is c.query_by.ensures

pub returns-in-Csv : goal.returns-in-Csv
returns-in-Csv g c = rw c.in-Csv.is c.query_by-in-Csv.ensures

pub returns-in-Table : goal.returns-in-Table
returns-in-Table g c = rw c.in-Table.is c.query_by-in-Table.ensures

pub returns-in-Arrow : goal.returns-in-Arrow
returns-in-Arrow g c = rw c.in-Arrow.is c.query_by-in-Arrow.ensures
